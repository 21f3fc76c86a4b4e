pub mod FirstFailing
pub mod Reading
