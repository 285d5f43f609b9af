mod Firsts
mod Steps
