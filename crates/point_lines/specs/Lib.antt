-- What a point's line is, what a stream of such lines prints, which point a line has; then what contracts of private functions cite.
pub mod Line
pub mod Stream
pub mod PointLine
pub mod Met
-- computed examples
pub mod examples
