mod Turns
mod Carrying
mod Forms
mod Causes
