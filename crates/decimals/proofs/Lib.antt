pub mod Powers
