pub mod CltuText
