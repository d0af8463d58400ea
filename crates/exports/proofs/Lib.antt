-- The laws behind showing by the C ABI: a table whose cells are their own numbers, and what is shown of it.
pub mod Numbered
pub mod Shown
