-- Request 8: the maker's table beside the register, and its calls.
pub mod Makers
pub mod Calls
