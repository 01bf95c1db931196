-- That the calls which play a text and save print what the text does, saved.
pub mod LastLines
pub mod Calls
