mod Asking
mod Classes
mod Findings
mod Joining
mod Members
mod Owing
mod Raises
