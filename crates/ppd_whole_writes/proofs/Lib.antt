-- Events, joined.
mod Joining
