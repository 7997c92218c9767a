-- Lemmas on what was decoded.
pub mod DecodedImage
