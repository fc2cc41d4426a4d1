pub mod ColorLists
