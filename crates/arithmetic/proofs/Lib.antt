-- Laws that more than one function's proof uses, and those of a group of functions.
mod Digits
mod Floors
mod Shifts
mod Signs
mod Sums
