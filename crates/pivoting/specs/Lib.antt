pub mod Pivoting
