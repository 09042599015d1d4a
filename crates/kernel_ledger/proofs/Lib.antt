mod Placed
mod Pushed
mod Steps
mod Totals
