-- What writing answers, case by case.
pub mod Writing
