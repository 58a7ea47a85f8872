mod Standing
mod Starting
