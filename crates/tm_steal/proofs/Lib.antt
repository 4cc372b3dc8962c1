mod Going
mod Whole
