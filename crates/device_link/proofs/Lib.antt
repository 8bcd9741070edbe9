mod TooManyOperands
mod Streams
