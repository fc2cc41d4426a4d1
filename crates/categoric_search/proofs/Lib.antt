-- The search by its steps, and that it finds a sample's key among narrowed keys.
pub mod Steps
pub mod Sought
pub mod NearKeys
