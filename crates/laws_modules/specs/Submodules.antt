pub mod Submodules
