-- which texts have a tab
pub mod Tabs
