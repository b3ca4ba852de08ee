mod Asking
mod Contained
mod Kept
mod MenuRows
mod MenusMade
mod Steadiness
