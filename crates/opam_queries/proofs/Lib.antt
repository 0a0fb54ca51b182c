mod Asked
mod Known
