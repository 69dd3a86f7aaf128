pub mod SheetImage
