pub mod OpenImageLaws
