pub mod Tops
pub mod Designs
