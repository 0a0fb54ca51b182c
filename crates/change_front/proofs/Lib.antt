mod Locked
mod Answered
mod Counted
mod Shrinking
mod Turned
mod Judged
mod Fitting
mod Fronted
