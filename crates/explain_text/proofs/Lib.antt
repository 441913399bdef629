mod Names
mod LinePlaces
