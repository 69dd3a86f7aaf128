pub mod StrikeLaws
pub mod ReleaseLaws
