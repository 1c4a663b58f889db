pub mod DrawnPictures
