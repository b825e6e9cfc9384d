pub mod FeedState
