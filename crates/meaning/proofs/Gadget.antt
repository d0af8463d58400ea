-- The law of each kind of line. Made is what lines that make one value share, Sign what relu and which share.
pub mod Made
pub mod Field
pub mod Input
pub mod Span
pub mod Sum
pub mod Sign
pub mod Relu
pub mod Which
pub mod Max
pub mod Root
