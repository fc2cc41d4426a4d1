-- What the contracts cite: the words of replies and of records.
pub mod Replies
pub mod Records
pub mod Rows
