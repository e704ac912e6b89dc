pub mod Genlist
