-- Laws of reading a line: its steps, and that exactly the lines of ten numbers are read.
pub mod Steps
pub mod Lines
