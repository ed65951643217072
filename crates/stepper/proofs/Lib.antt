mod Copying
mod Asking
mod Starting
