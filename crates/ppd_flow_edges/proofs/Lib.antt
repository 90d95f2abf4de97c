-- The items of an interval in which one is asked for.
mod Failing
