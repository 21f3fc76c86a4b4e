mod Arithmetic
