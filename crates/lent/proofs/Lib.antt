pub mod Behind
pub mod Pages
