-- Where leaves' values stand.
pub mod Place
