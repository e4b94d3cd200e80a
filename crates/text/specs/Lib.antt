-- Text as bytes: quoted, in digits, by lines; then what contracts cite.
pub mod Codes
pub mod Text
pub mod Digits
pub mod Pieces
pub mod Writing
