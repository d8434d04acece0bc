mod Common
mod Walking
