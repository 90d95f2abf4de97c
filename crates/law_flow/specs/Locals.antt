-- What the search within a process finds of local cells and of returned values.
pub mod Returned
pub mod AllReads
pub mod LocalReads
