-- The laws behind the calls: a list that was read and how it is walked again, then showing, checking, working, writing and making, and last the claims.
pub mod ReadList
pub mod Standing
pub mod Places
pub mod Scan
pub mod Shown
pub mod Checked
pub mod Worked
pub mod Written
pub mod Made
pub mod Replies
pub mod Claims
