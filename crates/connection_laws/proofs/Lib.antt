mod Books
mod Doors
mod Ends
mod Lives
mod Archives
mod Delivered
