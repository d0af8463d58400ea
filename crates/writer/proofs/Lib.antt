-- The laws of writing a list: the walk over given lines, the reply, and the claims.
pub mod Surveying
pub mod Replies
pub mod Claims
