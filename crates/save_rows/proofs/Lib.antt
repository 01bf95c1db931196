-- What reading answers, case by case.
pub mod Reading
