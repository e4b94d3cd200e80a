-- What the functions of the program of points' lines cite.
pub mod Chunk
