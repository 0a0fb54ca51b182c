mod Few
mod Files
mod Names
mod Wells
