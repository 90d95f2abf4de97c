mod Comes
mod Followed
mod Told
