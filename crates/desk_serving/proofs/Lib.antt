mod Board
mod Clock
mod Ending
mod Foreign
mod Owed
mod Judged
