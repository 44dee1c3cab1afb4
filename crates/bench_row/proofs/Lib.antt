pub mod Firsts
mod Lent
