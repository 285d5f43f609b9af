mod Includes
mod Naming
