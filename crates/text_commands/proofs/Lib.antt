mod Besides
mod JudgedBeside
mod Judging
