-- the order of labels
pub mod OrderSorts
pub mod SortedFilters
pub mod SortedLists
