-- The laws behind reading: how much a line adds, its answer taken into the arrays, one step, that the known ends stay in order, then the walk over the
-- lines, the whole text, and that reading is exact.
pub mod Sizes
pub mod Growth
pub mod Narrowing
pub mod Placing
pub mod Steps
pub mod Firsts
pub mod Stopping
pub mod Ordered
pub mod Walk
pub mod Whole
pub mod Exact
pub mod Taking
