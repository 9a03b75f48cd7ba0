-- a style mark that is written in part
mod BrokenStyleMarks
