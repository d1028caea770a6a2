pub mod Counting
pub mod Reading
pub mod Storing
pub mod FreeStack
pub mod Hulls
pub mod Heading
pub mod Telling
