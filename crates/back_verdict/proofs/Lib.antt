mod Leasts
mod Lists
mod Rooms
mod Sorting
